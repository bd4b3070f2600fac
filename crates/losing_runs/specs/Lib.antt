pub mod Conduct
pub mod Variants
pub mod Runs
pub mod Losses
pub mod Numbers
