-- what the contracts of the notebook rest on
pub mod Notebook
pub mod Versions
pub mod Places
pub mod Limits
pub mod Prefixes
pub mod Calls
-- what the functions inside the crate promise each other
pub mod Kept
