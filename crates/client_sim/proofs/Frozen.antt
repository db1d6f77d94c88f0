-- Paths through frozen objects, and registers that are only read.
pub mod FrozenPathLaws
pub mod FrozenPlaceLaws
pub mod FrozenValueLaws
pub mod ReadOnlyLaws
pub mod ReadOnlyResultLaws
pub mod LessKnownLaws
pub mod ReadOnlyValueLaws
pub mod ReadOnlyStreamLaws
pub mod FrozenFrameLaws
pub mod AnchorLaws
pub mod UnfoldedRowLaws
pub mod UnfoldedOperationLaws
