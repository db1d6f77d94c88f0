-- Clients as bytes and as text, and the instruction table.
pub mod ConstantNameLaws
pub mod OperationTableLaws
pub mod OneTreeLaws
pub mod ListingLaws
pub mod ReadablePieceLaws
pub mod FileVersionLaws
pub mod OneClientLaws
pub mod CanonicalTextLaws
pub mod TextWordLaws
pub mod OneTextLaws
