pub mod Described
pub mod Holds
pub mod Steps
