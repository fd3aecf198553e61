pub mod Numbering
pub mod Sayings
pub mod Adding
pub mod Running
pub mod Single
