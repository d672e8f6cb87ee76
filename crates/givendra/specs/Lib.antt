pub mod Answered
pub mod Answers
pub mod Chosen
pub mod FileDays
pub mod LentList
