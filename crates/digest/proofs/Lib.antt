pub mod Blocks
pub mod Endings
pub mod Steps
pub mod Vectors
