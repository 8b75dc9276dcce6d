pub mod Shapes
pub mod Built
pub mod LaterNames
mod Examples
