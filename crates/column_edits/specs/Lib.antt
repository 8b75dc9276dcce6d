-- what each command makes of the columns
pub mod Plans
-- what becomes of a table: with marks, without them, and over what is shown
pub mod Changes
pub mod Formula
-- what holds of the commands
pub mod Laws
-- layouts: the columns of a result, and where their values come from
pub mod Layout
pub mod Same
-- what the functions inside the crate ask of each other
pub mod Rules
pub mod Filling
