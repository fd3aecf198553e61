pub mod Feeds
pub mod Finding
