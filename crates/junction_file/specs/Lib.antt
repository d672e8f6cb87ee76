pub mod Chosen
pub mod FileDays
pub mod Numbers
pub mod OtherPeriods
pub mod Reading
pub mod Taken
pub mod lemmas
