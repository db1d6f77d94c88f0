pub use Rattle.client_sim.proofs.Names.OnePictureLaws as OnePicture
pub mod WorkedImages
pub mod WorkedRuns
pub mod Runs
pub mod Rows
pub mod Frozen
pub mod ValueChanges
pub mod Alike
pub mod Steps
