pub mod Fields
pub mod Rest
