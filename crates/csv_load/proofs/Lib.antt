mod Examples
pub mod Records
pub mod EndLemmas
pub mod Cleaning
pub mod TallyLemmas
pub mod BaseNames
pub mod FreeNames
pub mod RowLemmas
pub mod TableParts
pub mod LoadLemmas
pub mod Erasure
pub mod OtherPicks
