pub mod Arithmetic
pub mod Laws
pub mod Shown
pub mod Leans
