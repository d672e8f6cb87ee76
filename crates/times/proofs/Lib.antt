pub mod Gaps
pub mod Least
pub mod Monotone
