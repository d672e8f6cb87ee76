pub mod Demand2
pub mod Planned
pub mod lemmas
