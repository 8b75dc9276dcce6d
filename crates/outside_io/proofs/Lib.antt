pub mod Appended
mod Examples
mod Kept
mod Places
