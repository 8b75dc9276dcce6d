-- joins, with marks, without them, and over what is shown
pub mod Join
-- what holds of them
pub mod Laws
-- what they ask of their sides
pub mod Rules
-- ON that compares two columns
pub mod Equalities
-- rows that are kept while they are few
pub mod Few
-- what the functions inside the crate promise each other
pub mod Jobs
