pub mod Ahead
pub mod Imported
