pub mod Burns
pub mod Standing
pub mod Seen
pub mod Facts
pub mod Ranges
