pub mod Demand2
pub mod Planned
pub mod WorkingOut
pub mod lemmas
