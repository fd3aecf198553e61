pub mod Firsts
pub mod Identities
