pub mod Session
pub mod Problems
pub mod Lines
