pub mod Growth
pub mod Images
pub mod Checked
pub mod Places
pub mod Owners
pub mod Iterators
pub mod TypeLists
pub mod NumberPushes
pub mod NumberPuts
-- the words of the crates below that the contracts cite
pub use Rattle.seg_value.specs.Stored
pub use Rattle.seg_manager.specs.NewSegments
pub use Rattle.seg_check.specs.Faults
pub use Rattle.seg_check.specs.Owners as OwnerFaults
pub use Rattle.seg_manager.specs.Segments
pub use Rattle.seg_manager.specs.NamedObjects
pub use Rattle.seg_seq.specs.Sequences
pub use Rattle.seg_seq.specs.Lists
pub use Rattle.seg_map.specs.Maps
pub use Rattle.seg_map.specs.EitherMap
pub use Rattle.seg_map.specs.declared.key_value.KeyValue
pub use Rattle.seg_layout.specs.Forms
pub use Rattle.seg_value.specs.Place
pub use Rattle.seg_value.specs.CellPlaces as CellPlaces
