pub mod Stored
pub mod Contents
pub mod Buffers
pub mod Entries
pub mod Names
pub mod Waiting
pub mod Nodes
pub mod Places
pub mod Sharing
-- the words of `seg_cells` that the contracts above cite
pub use Rattle.seg_cells.specs.Places as CellPlaces
pub use Rattle.seg_cells.specs.declared.content.Shape
pub use Rattle.seg_cells.specs.declared.place.Place
