pub mod Meaning
pub mod Following
pub mod Comparing
