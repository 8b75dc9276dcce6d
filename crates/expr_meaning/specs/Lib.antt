-- what an expression means
pub mod Forms
pub mod Meaning
pub mod Settings
pub mod Known
pub mod Names
pub mod Picked
-- what holds of it
pub mod Laws
-- the static types
pub mod Types
-- what the functions promise
pub mod Sees
pub mod Steps
pub mod Calls
