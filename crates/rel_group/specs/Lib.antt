-- the keys of rows, and the groups of rows of one key
pub mod Keys
pub mod Groups
-- the steps: with marks, without them, and over what is shown
pub mod Group
pub mod Plain
pub mod Shown
-- what holds of the steps
pub mod Laws
-- what the functions promise each other
pub mod Calls
