pub mod Fields
pub mod Named
pub mod Places
pub mod Rest
