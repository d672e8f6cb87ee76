pub mod Fields
pub mod Refusals
pub mod RoadWorks
pub mod WholeCase
