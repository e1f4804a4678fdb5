pub mod Stores
pub mod Boxes
pub mod Steps
pub mod Parts
pub mod View
