-- names, each once
pub mod Nub
-- what is true of every list
pub mod Laws
