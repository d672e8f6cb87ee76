pub mod Lengths
pub mod Search
