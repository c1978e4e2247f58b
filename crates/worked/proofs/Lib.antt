pub mod JoinedGrids
pub mod StruckUnits
pub mod Answered
pub mod ExampleBook
pub mod JoinedBooks
