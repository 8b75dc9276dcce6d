-- what a command gives and reads: with marks, and without them
pub mod Commands
pub mod Plain
-- what holds of commands
pub mod Laws
