pub mod Opening
pub mod Answers
pub mod Rules
pub mod Calls
pub mod Laws
pub mod TwoUnits
pub mod Promises
