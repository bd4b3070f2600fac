pub mod Equalities
pub mod Meanings
pub mod Missing
