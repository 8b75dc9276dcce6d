-- the text of an expression
pub mod Tokens
-- which expressions some text gives
pub mod Printable
-- what holds of the text
pub mod Laws
-- what the functions promise each other
pub mod Calls
