pub mod Grouping
pub mod Verdicts
pub mod Tallies
pub mod Meeting
pub mod Weighing
