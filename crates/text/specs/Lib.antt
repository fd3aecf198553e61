pub mod Cutting
pub mod Faults
pub mod Kinds
pub mod Lines
pub mod Shown
