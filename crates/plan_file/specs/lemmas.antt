pub mod Bytes
pub mod Left
pub mod Long
pub mod Passed
