pub mod Earned
pub mod Books
pub mod Turns
