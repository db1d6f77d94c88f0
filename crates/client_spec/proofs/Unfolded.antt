-- States with copies in place of shared cells.
pub mod UnfoldedValueLaws
pub mod UnfoldedStateLaws
pub mod UnfoldedOutcomeLaws
pub mod UnfoldedPartLaws
pub mod UnfoldedRowLaws
pub mod UnfoldedPlaceLaws
pub mod UnfoldedEffectLaws
pub mod UnfoldedShapeLaws
pub mod PictureTreeLaws
pub mod SharedTreeLaws
