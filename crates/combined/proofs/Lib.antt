pub mod Asking
pub mod Mixing
pub mod Parts
pub mod Whole
