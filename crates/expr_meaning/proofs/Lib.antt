pub mod Respects
pub mod Alike
pub mod Found
pub mod Lists
pub mod Readings
pub mod Typings
pub mod Erased
pub mod KnownLaw
mod Examples
