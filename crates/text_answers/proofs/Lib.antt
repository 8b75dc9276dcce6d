pub mod TheAnswer
mod Examples
