pub mod Lines
pub mod Unsent
pub mod Carried
pub mod Opening
