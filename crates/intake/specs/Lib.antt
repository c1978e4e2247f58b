pub mod Taking
pub mod Alone
pub mod Responding
