pub mod Numbers
pub mod Places
pub mod Refusals
pub mod Histories
pub mod Sequences
pub mod Own
