pub mod Calls
pub mod Runs
pub mod Obeying
pub mod Law
