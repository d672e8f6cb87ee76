pub mod Answered
pub mod Calculation
pub mod Entries
pub mod Library
pub mod Rules
pub mod Told
pub mod Works
