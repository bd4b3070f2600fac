pub mod Appends
pub mod Bytes
pub mod Sheets
pub mod Theorems
