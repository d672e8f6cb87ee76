pub mod Fills
pub mod Greens
pub mod Slots
