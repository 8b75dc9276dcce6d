-- what the top call says, by its status
pub mod Top
pub mod Opening
pub mod Words
pub mod Statuses
