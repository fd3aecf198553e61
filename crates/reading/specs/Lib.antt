pub mod Places
pub mod Steps
pub mod Texts
pub mod Lines
pub mod Received
