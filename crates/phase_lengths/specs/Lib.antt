pub mod First
pub mod Phases
