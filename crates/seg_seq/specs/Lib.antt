pub mod Rings
pub mod Lists
pub mod Sequences
pub mod Kinds
pub mod Buffers
