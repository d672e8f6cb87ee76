pub mod Literals
pub mod Tenths
pub mod lemmas
