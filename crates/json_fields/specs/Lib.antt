-- how fields are looked at, and what each kind of field holds
pub mod Json
pub mod Values
pub mod Numbers
pub mod Columns
pub mod LoadOptions
pub mod Lists
-- what is written for it
pub mod Written
