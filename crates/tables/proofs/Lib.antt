pub mod Runs
pub mod Loops
pub mod Bits
pub mod Entries
