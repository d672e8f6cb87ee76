pub mod Bytes
pub mod Verdict
pub mod lemmas
