pub mod Windows
pub mod Priced
pub mod Sizes
