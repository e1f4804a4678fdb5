mod Stores
pub mod Makings
pub mod Keeps
pub mod Ready
mod OnePiece
pub mod Concluding
mod Gathering
