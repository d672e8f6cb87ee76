pub mod Answer
pub mod Long
pub mod Refused
pub mod Told
pub mod lemmas
