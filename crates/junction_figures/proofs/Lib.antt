pub mod Directions
pub mod Exact
pub mod Figures
pub mod UncheckedLaws
