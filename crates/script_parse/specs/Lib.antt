-- what each action makes of the pieces
pub mod Pieces
-- the tree of a text
pub mod Trees
-- the names that statements touch
pub mod Touched
-- what the calls on pieces ask for
pub mod Tops
