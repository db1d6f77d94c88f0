-- The worked client, its run, and its outcome.
pub mod WorkedCalls
pub mod SimulationLaws
pub mod IncrementLaws
pub mod CounterRun
pub mod OneIncrementLaws
pub mod OneClientLaws
pub mod NoOwnerLaws
pub mod IncrementOutcomeLaws
pub mod EnoughRoomLaws
