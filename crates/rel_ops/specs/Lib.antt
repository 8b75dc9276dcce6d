-- the steps, each with marks, without them, and over what is shown
pub mod Filter
pub mod Project
pub mod Sort
pub mod Limit
pub mod Union
-- a stable sort
pub mod Sorted
-- what holds of the steps
pub mod Laws
pub mod Orders
