pub mod Lists
pub mod Stable
pub mod Ranks
pub mod Orders
pub mod WhereRows
pub mod ItemRows
pub mod ProjectRules
pub mod TooMany
pub mod SameLaws
pub mod FilterLaws
pub mod ProjectLaws
pub mod SortLaws
pub mod LimitLaws
pub mod UnionLaws
mod Examples
