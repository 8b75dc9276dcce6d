-- what a grammar is, its sentences, and where a text errs
pub mod Grammar
pub mod Places
-- grammars as tables, and the tests that a table passes
pub mod Table
pub mod Test
pub mod Short
-- trees from postfix actions
pub mod Pieces
-- parsers with one token ahead
pub mod Reader
pub mod Ahead
-- the theorems
pub mod Laws
