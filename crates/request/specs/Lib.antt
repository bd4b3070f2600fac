pub mod Requests
pub mod Ticks
