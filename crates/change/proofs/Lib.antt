pub mod Lowest
pub mod Same
pub mod Standing
