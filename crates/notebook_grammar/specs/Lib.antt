-- the tokens of a text
pub mod Kinds
pub mod Words
pub mod Forms
pub mod Longest
pub mod Lexemes
pub mod Values
pub mod Tokens
-- the table of rules
pub mod Rows
pub mod Expressions
pub mod Selects
pub mod Scripts
pub mod Language
-- what trees are built by
pub mod Shapes
pub mod Effects
pub mod Parts
-- when a text is of the language
pub mod Limits
pub mod Texts
pub mod Laws
-- what the machine's functions promise each other
pub mod Weights
pub mod Machine
