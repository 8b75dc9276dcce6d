pub mod KeyNames
pub mod KeyPlaces
pub mod Columns
pub mod Joinable
pub mod Chosen
pub mod Planned
pub mod NamesOnce
pub mod NamesRead
pub mod Rels
pub mod Erased
mod SameSteps
pub mod Same
mod Examples
