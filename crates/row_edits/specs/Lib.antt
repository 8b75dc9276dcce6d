-- the commands, each with marks, without them, and over what is shown
pub mod Insert
pub mod Delete
pub mod Move
pub mod Set
pub mod Sort
-- what holds of them
pub mod Laws
-- rows by the texts of their ids, and what the commands make of lists of rows
pub mod Ids
pub mod ByText
pub mod Rows
-- columns by their names, and values as those of a column
pub mod Columns
-- what the functions inside the crate promise each other
pub mod Staying
