pub mod Reading
pub mod Fields
mod Examples
