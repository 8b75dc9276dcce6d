-- how distinct names are tested
pub mod Apart
-- which commands are copied together
pub mod Groups
