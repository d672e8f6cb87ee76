pub mod Demand3
pub mod FileDays
pub mod Long
pub mod Numbers
pub mod Written
pub mod lemmas
