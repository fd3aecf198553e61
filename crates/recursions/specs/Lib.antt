pub mod Depths
pub mod Firsts
pub mod Forward
pub mod Backward
pub mod Answers
pub mod Laws
