pub mod Acts
pub mod Logs
pub mod Records
pub mod Outcomes
