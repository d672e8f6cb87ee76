pub mod Larger
pub mod Leaves
pub mod Numbers
pub mod Streams
pub mod lemmas
