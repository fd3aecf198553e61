pub mod Forms
pub mod Pieces
pub mod Lines
pub mod Telling
pub mod Words
