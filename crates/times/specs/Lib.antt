pub mod Comparison
pub mod Entry
pub mod Least
pub mod Times
pub mod lemmas
