pub mod Running
pub mod Choosing
pub mod Adding
pub mod Building
