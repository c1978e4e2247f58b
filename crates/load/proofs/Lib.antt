pub mod InOrder
pub mod Counting
pub mod Grouping
pub mod Tabled
