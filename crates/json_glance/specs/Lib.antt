-- what a line is as JSON, and what a first look tells of it
pub mod Line
-- what the functions inside the crate promise each other
pub mod Passed
