-- relations, their rules and limits
pub mod Rels
-- the columns of a row with their values
pub mod Bound
-- expressions that are the value at a place of a row
pub mod Places
-- what a step makes of each row, in order
pub mod Batches
-- what a condition makes of a row
pub mod Conditions
-- relations without marks, and what is shown of them
pub mod Plain
pub mod Shown
-- values of types
pub mod Typed
