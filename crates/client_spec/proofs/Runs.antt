-- Runs of code: their bounds, and what they keep.
pub mod RunBoundLaws
pub mod TotalRunLaws
pub mod TypedRunLaws
pub mod InterpreterStepLaws
pub mod OutsideByteLaws
pub mod KeptByRunLaws
pub mod RunInvariantLaws
pub mod RunTripleLaws
