pub mod Flat
pub mod Shape
