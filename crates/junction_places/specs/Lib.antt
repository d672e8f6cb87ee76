pub mod Blank
pub mod Places
pub mod Ranks
pub mod lemmas
