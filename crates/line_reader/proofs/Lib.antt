mod Examples
pub mod Feeds
pub mod Steps
pub mod Texts
