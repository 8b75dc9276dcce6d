-- which command an object is
pub mod Commands
pub mod ColumnCommands
pub mod RowCommands
pub mod DatasetCommands
-- which commands have an object
pub mod Plain
