pub mod Sizes
pub mod Burst
pub mod Joins
pub mod Ways
pub mod Checks
pub mod Lists
pub mod Pins
pub mod Own
