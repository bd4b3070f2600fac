pub mod Touched
pub mod Pages
pub mod Looks
pub mod Rounds
pub mod Settles
