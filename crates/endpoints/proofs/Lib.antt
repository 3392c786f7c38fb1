pub mod Addressees
pub mod Bound
pub mod GoodNames
pub mod Searches
pub mod Unused
