-- that each text has steps or a place where it errs
pub mod Laws
