-- what a SELECT gives in an environment, and the names that it reads
pub mod Select
-- the same without marks
pub mod Plain
-- what holds of it
pub mod Laws
-- SELECT over any kind of tables: its steps in order
pub mod Steps
-- the datasets that were read
pub mod Inputs
-- what the functions ask of each other
pub mod Calls
