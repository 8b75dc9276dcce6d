pub mod PutIn
pub mod Lengths
pub mod Mapped
pub mod Sures
pub mod Ids
pub mod Results
pub mod InsertLaws
pub mod DeleteLaws
pub mod MoveLaws
pub mod Staying
pub mod SetLaws
pub mod SortLaws
pub mod SortStays
mod Examples
