pub mod Places
mod Adding
mod Climbing
mod Descending
mod Settling
mod Soundness
mod Deepening
pub mod Checks
mod Altering
mod Reading
mod Tracing
mod Showing
