pub mod Failures
pub mod Runs
pub mod Watching
