pub mod Planned
pub mod Planning
pub mod lemmas
