mod Sure
mod Captures
mod Table
