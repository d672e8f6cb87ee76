pub mod Inverse
pub mod Left
pub mod Long
pub mod Numbers
pub mod WellFormed
