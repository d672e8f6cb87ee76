pub mod Answered
pub mod Approaches
pub mod Cycle
pub mod Large
pub mod RefusedLaws
pub mod Works
pub mod lemmas
