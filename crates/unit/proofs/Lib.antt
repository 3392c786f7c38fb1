pub mod OpeningCall
pub mod OpenedUnits
pub mod Units
pub mod TwoUnits
pub mod Promises
