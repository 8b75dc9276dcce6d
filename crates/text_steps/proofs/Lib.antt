pub mod Lexed
pub mod Reading
pub mod EachText
