-- what each action makes of the pieces
pub mod Pieces
-- the tree of a text
pub mod Trees
-- the datasets that a SELECT names
pub mod Names
-- what the calls on pieces ask for
pub mod Tops
