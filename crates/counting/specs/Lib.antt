pub mod Outcomes
pub mod Orders
pub mod Leasts
pub mod Deposits
pub mod Answers
pub mod Theorems
