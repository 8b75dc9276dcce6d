pub mod Booleans
pub mod OneAhead
pub mod Fronts
pub mod Tested
pub mod Counting
pub mod ShortOnes
pub mod OnePiece
pub mod Turns
mod Examples
