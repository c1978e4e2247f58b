pub mod Groups
pub mod Pairs
pub mod Adjusting
pub mod Means
pub mod Mixing
