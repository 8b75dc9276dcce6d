-- which edit a line is
pub mod Wire
pub mod Cells
pub mod Make
pub mod Loads
pub mod Sql
-- which edits have a line
pub mod Plain
-- the picks of a file
pub mod PicksFile
-- what a call answers that may refuse an edit
pub mod Answers
-- what the functions inside the crate promise each other
pub mod EditWords
