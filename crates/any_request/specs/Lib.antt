pub mod Faults
pub mod Looks
pub mod Messages
pub mod Requests
pub mod Words
