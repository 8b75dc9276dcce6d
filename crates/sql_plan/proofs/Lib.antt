pub mod Aggregating
pub mod Heads
pub mod Folding
pub mod Positions
pub mod Naming
mod Sorting
pub mod Refining
pub mod Facts
mod Examples
