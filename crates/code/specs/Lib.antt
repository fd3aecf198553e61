pub mod Rule
pub mod Held
pub mod Parity
pub mod Small
