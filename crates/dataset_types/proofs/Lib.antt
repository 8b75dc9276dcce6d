pub mod EnvLemmas
pub mod TableLemmas
pub mod RuleLemmas
pub mod PlainLemmas
mod Examples
