pub mod JunctionPhases
pub mod Meaning
pub mod lemmas
