mod Ordered
mod Holding
pub mod Laws
