pub mod Plans
pub mod WellFormed
pub mod Writing
pub mod lemmas
