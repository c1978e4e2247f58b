pub mod Standing
pub mod Asking
pub mod Fed
pub mod Flowing
pub mod Cutting
pub mod Stood
