pub mod Lists
pub mod Hiding
pub mod Parts
pub mod Lowest
pub mod Follow
pub mod Runs
pub mod Steps
pub mod Firsts
mod Searched
