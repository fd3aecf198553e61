pub mod Bursts
pub mod Standing
pub mod Sound
pub mod Settling
pub mod Changes
pub mod Steps
pub mod Readings
