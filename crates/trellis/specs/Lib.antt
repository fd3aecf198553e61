pub mod Trellis
pub mod Sequences
pub mod Columns
pub mod Statements
pub mod Shifts
pub mod Least
pub mod Elements
pub mod Lists
