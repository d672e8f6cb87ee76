pub mod ByNumber
pub mod Largest
pub mod Rounding
pub mod Search
