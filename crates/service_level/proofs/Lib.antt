pub mod Capacity
pub mod Divisors
pub mod NoRed
pub mod Positive
pub mod Told
