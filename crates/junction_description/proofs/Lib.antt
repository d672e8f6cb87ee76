pub mod Exactly
pub mod Flows
pub mod OtherPeriods
pub mod lemmas
