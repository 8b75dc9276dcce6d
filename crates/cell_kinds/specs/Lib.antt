-- what each kind of cell means
pub mod Kinds
pub mod Make
pub mod Load
pub mod Written
pub mod Sql
-- what each gives without marks, and that the marked run without its marks is that
pub mod Plain
pub mod Laws
-- a cell in error gives nothing else
pub mod Bare
