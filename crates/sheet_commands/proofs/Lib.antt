pub mod ApartLemmas
mod Examples
