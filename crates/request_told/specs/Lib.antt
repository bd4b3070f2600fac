pub mod Looks
pub mod Requests
pub mod Ticks
