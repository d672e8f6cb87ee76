pub mod Roots
pub mod Squares
