pub mod Orders
pub mod IdTexts
pub mod Digits
pub mod PlainTexts
pub mod Ascii
pub mod Weights
pub mod SameIdLaws
pub mod Examples
