pub mod Chosen
pub mod OtherPeriods
