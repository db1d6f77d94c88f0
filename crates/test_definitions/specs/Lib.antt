pub mod RefusedOutcomes
pub mod Alike
pub mod Agreement
pub mod MovedBuffers
