pub mod Numbers
pub mod Ranged
