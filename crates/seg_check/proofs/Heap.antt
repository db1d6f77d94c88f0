-- The check of the heap: its tiles, their tags and its free blocks.
pub mod TagNumberLaws
pub mod LiveTagLaws
pub mod TileWalkLaws
pub mod FreeListLaws
pub mod TagLaws
pub mod PassedTileLaws
pub mod GapLaws
pub mod FreeTreeWalkLaws
pub mod HeapLaws
