pub mod Rules
pub mod Taps
pub mod Table
pub mod Code
pub mod Tabled
pub mod Tapped
