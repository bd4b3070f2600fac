pub mod Willing
pub mod Reached
