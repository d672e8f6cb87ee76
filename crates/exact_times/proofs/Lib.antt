pub mod Farther
pub mod InTimeFarther
pub mod Larger
pub mod Lesser
pub mod Numbers
pub mod Streams
