pub mod ReadAs
pub mod Counted
pub mod Digits
pub mod RoundTrip
pub mod Steps
pub mod Writing
pub mod Letters
