pub mod Two
pub mod Same
