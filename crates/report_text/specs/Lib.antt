-- the texts that the calls write
pub mod Report
-- the names in them
pub mod Names
-- what the functions inside the crate promise each other
pub mod Passing
