pub mod WholeEnds
pub mod Places
pub mod Sums
pub mod FirstRecord
pub mod CallKinds
pub mod Memory
pub mod MemoryAfter
pub mod RowByRow
