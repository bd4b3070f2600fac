pub mod Changes
pub mod Follows
pub mod Reasons
pub mod Totals
