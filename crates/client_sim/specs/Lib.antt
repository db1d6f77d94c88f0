pub mod Writes
pub mod Shows
pub mod Acting
pub mod Seeing
pub mod Sharing
pub mod Staying
