pub mod Judgement
pub mod Long
pub mod Meaning
pub mod Written
pub mod lemmas
