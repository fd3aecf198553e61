pub mod Samples
pub mod Refusals
pub mod Distances
pub mod Meaning
pub mod Windows
