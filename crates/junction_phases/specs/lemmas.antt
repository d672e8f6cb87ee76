pub mod Made
pub mod Placed
pub mod Right
pub mod Tabled
pub mod Zones
