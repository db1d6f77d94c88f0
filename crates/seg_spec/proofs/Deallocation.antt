-- Values that are destroyed: the blocks that wait to be freed, and what is kept.
pub mod OwnLaws
pub mod WaitingBlockLaws
pub mod WaitingPushLaws
pub mod BlockFreeLaws
pub mod TreeDestructionLaws
pub mod ChainDestructionLaws
pub mod DestructionLaws
pub mod PartDestructionLaws
pub mod SharedDestructionLaws
pub mod CellDestructionLaws
pub mod RingDestructionLaws
pub mod OwnerDestructionLaws
