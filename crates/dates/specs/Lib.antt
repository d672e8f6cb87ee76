pub mod Dates
pub mod Meaning
pub mod lemmas
