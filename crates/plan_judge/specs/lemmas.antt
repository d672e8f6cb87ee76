pub mod Accepted
pub mod Cycles
