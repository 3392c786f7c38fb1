pub mod OpenNumbers
pub mod OpenSays
pub mod Runs
pub mod Sends
pub mod Measuring
pub mod ArrivalDecisions
pub mod RegisterDecisions
