pub mod FileDays
pub mod Long
pub mod Refused
pub mod SameJudgement
pub mod Shifted
