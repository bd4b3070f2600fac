pub mod Buckets
pub mod Maps
