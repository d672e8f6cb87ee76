pub mod Farther
pub mod FirstDemand
pub mod SecondDemand
pub mod lemmas
