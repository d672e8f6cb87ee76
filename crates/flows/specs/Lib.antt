pub mod Meaning
pub mod Needs
pub mod Saturation
pub mod lemmas
