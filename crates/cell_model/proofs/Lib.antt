mod Asked
mod Distinctness
pub mod Examples
pub mod RunLemmas
mod RunLaws
pub mod WorkLemmas
