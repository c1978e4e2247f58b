pub mod Quiets
pub mod Runs
