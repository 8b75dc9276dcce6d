pub mod Erasing
pub mod Showing
pub mod Fixing
