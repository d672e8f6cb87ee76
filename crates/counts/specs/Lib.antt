pub mod Newest
pub mod Usable
pub mod Chosen
pub mod OtherPeriods
