-- the check of a SELECT, and its plan
pub mod Plan
-- the check of one core
pub mod Cores
-- the columns of what is read
pub mod Headings
-- names that stand once, and the places of columns
pub mod Names
pub mod Places
-- conditions, groups and items
pub mod Conditions
pub mod Groups
pub mod Items
-- aggregates in an expression
pub mod Aggregates
-- one answer after another
pub mod Folds
