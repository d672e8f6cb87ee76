pub mod FileDays
pub mod Numbers
pub mod TakenFile
pub mod lemmas
