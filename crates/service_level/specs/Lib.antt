pub mod Capacity
pub mod Delays
pub mod Divisors
pub mod Literals
pub mod Positive
pub mod lemmas
