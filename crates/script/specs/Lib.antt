pub mod Rows
pub mod Records
pub mod Calls
pub mod Script
