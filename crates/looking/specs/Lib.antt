pub mod Looking
pub mod Looks
pub mod Steps
