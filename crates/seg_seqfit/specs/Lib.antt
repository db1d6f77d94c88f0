pub mod FreeBlocks
pub mod Retiling
pub mod Leading
