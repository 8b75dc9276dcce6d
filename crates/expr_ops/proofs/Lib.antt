pub mod Following
pub mod Ends
mod Examples
