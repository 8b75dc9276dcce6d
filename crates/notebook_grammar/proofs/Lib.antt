pub mod Lookups
pub mod Munching
pub mod Cutting
pub mod Hints
pub mod Fine
pub mod Shorts
pub mod Light
pub mod Exact
pub mod Stacks
pub mod Going
pub mod Showing
pub mod OneReading
pub mod OneAnswer
pub mod Fitting
mod Examples
pub mod InOrder
pub mod WordForms
pub mod ValueTexts
