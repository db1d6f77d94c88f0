-- What the marks tell of blocks, and what a claim needs.
pub mod MarkLaws
pub mod BitLaws
pub mod MarkedBlockLaws
pub mod ClaimLaws
pub mod FrozenClaimLaws
pub mod CellClaimLaws
pub mod LackingBlockLaws
