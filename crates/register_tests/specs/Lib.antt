pub mod Fleets
pub mod Likes
