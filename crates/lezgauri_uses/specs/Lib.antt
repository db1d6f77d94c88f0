pub mod Counts
pub mod Numbers
pub mod Tables
pub mod Settings
pub mod Caches
pub mod CacheModel
