pub mod Entries
pub mod Rule
pub mod Held
