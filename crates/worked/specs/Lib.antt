pub mod Asked
pub mod Grids
pub mod Struck
pub mod Example
pub mod Joined
