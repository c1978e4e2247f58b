pub mod Kinds
pub mod Walks
pub mod Runs
pub mod Cohorts
pub mod Members
pub mod Margins
