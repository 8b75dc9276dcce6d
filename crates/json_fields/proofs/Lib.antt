pub mod Options
pub mod Ranges
pub mod FixedTexts
pub mod Each
pub mod Back
pub mod ListsBack
pub mod Fields
pub mod Examples
