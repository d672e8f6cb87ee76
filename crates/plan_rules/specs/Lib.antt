pub mod Rules
pub mod lemmas
