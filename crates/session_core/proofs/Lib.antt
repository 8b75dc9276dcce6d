pub mod Blocks
pub mod Fronts
pub mod Taken
pub mod Turns
pub mod Complete
pub mod Written
