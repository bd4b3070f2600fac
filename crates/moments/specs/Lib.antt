pub mod Runs
pub mod Moments
pub mod Moves
pub mod Records
pub mod Exactly
pub mod Example
pub mod Refused
