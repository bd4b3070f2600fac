pub mod Reaching
pub mod Undoing
pub mod One
pub mod Many
