pub mod Lists
pub mod Bodies
mod Options
