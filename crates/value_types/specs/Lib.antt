pub mod Names
pub mod Numbers
pub mod Order
pub mod Text
pub mod formers
pub mod Same
pub mod SameIds
