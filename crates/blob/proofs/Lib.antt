pub mod Areas
pub mod Bytes
pub mod Parts
