-- what the operators give on values
pub mod Ops
pub mod Truths
pub mod Arithmetic
pub mod Compare
pub mod Texts
pub mod Casts
pub mod Aggregates
pub mod Places
-- what the functions inside the crate promise each other
pub mod LikeSteps
