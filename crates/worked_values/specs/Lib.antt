pub mod Computed
pub mod Delays
pub mod Values
