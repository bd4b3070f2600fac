mod Later
pub mod Rounds
