-- what the tokens of an expression say, and what each action does to the pieces
pub mod Values
pub mod Pieces
-- the tree of a text
pub mod Trees
-- what the calls on pieces ask for
pub mod Tops
pub mod Operators
