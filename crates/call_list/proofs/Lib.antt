pub mod Splits
pub mod Scans
pub mod Cuts
pub mod Digits
pub mod Places
pub mod Names
