-- what the contracts rest on
pub mod Tables
pub mod Slots
pub mod Envs
pub mod Picks
-- values as those of a type
pub mod Fitting
-- tables and environments without marks
pub mod Plain
-- when columns, values, rows and tables are the same
pub mod Same
