pub mod Firsts
pub mod Locality
pub mod Trellises
pub mod Survivors
pub mod Shown
pub mod FullDepth
pub mod Depths
