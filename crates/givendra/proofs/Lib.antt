pub mod Answered
pub mod Chosen
pub mod FileDays
pub mod Figures
pub mod Worked
