pub mod Concluding
pub mod Erasure
pub mod Examples
