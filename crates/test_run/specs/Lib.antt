pub mod Saved
pub mod WrongImages
