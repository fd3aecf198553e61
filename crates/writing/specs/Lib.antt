pub mod Drafts
pub mod Written
