pub mod Exactly
pub mod File
pub mod OtherPeriods
pub mod lemmas
