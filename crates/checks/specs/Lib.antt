pub mod Parts
pub mod Measuring
pub mod Decisions
