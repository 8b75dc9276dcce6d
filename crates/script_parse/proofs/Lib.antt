pub mod Shapes
pub mod Built
pub mod Touches
mod Examples
