-- Values, by their types, and the blocks to which their cells point.
pub mod BufferLaws
pub mod StructLaws
pub mod SharedCellLaws
pub mod AscendingKeyLaws
pub mod EntryKeyLaws
pub mod FlatMapLaws
pub mod NodeLaws
pub mod ListLaws
pub mod MapLaws
