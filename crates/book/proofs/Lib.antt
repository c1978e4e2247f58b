pub mod Bounds
pub mod Firsts
pub mod Lowest
pub mod Order
pub mod Read
pub mod Tables
pub mod Entering
