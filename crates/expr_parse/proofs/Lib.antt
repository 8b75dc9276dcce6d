pub mod Tops
pub mod Operating
pub mod Doubled
pub mod Slices
pub mod Shapes
pub mod Along
pub mod Built
pub mod Quotes
pub mod Plain
pub mod Standing
mod Examples
