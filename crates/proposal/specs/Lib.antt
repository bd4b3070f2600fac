pub mod Proposals
pub mod Recognised
pub mod Sames
