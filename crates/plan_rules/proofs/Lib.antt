pub mod OffLaws
pub mod lemmas
