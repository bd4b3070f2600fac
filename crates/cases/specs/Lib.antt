pub mod Rows
pub mod Sheets
pub mod Table
pub mod Scripts
pub mod Written
