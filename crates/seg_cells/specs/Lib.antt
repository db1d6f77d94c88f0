pub mod Places
pub mod Cells
pub mod Entries
pub mod Pointers
pub mod Search
pub mod Contents
pub mod Names
pub mod NameEntries
