-- Runs of the same clients, and their outcomes.
pub mod StoppedRunLaws
pub mod RunNumberLaws
pub mod TwoRunLaws
pub mod CutOutputLaws
pub mod AlikeRunLaws
pub mod AlikeFirstLaws
pub mod OneOutcomeLaws
pub mod AlikeEndLaws
pub mod SilentRunLaws
