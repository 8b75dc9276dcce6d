-- what a load gives, from the bytes to the table
pub mod Load
-- the same without marks and flags, and the laws
pub mod Plain
pub mod Laws
-- its parts
pub mod Ends
pub mod Names
pub mod Guess
pub mod Fields
pub mod Rows
-- what the functions inside the crate promise each other
pub mod Reading
pub mod Tallies
pub mod Calls
