-- what a text is by the grammar, and the one answer of each text
pub mod ByGrammar
pub mod Answers
-- that it is the one
pub mod Laws
-- what the functions promise each other
pub mod Faults
