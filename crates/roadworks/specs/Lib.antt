pub mod Approaches
pub mod Large
pub mod Meaning
pub mod Refused
pub mod Roadworks
pub mod Works
pub mod lemmas
