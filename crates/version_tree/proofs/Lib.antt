pub mod Cells
pub mod Versions
pub mod Distinct
pub mod Examples
