pub mod PairIds
pub mod JoinRules
pub mod ErasedJoin
pub mod ShownJoin
pub mod SameJoin
pub mod ApartKeys
pub mod ComparedPlaces
pub mod PairLoop
pub mod FewRows
pub mod LoneRows
mod Examples
