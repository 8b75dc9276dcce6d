pub mod Nubs
mod Examples
