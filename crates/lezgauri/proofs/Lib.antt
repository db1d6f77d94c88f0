pub mod OpenedLaws
-- memory that a host lends
pub mod LodgeLaws
pub mod SliceMemory
-- runs of clients, one after the other
pub use Rattle.client_vm.proofs.TogetherLaws
-- an image that is the whole region of its window
pub use Rattle.seg_image.proofs.WholeRegionLaws
-- numbers that were appended to a vector
pub use Rattle.seg_image.proofs.NumberPushLaws
-- numbers that were put into a map by their keys
pub use Rattle.seg_image.proofs.NumberPutLaws
-- an image keeps its size
pub use Rattle.client_sim.proofs.ImageSizeLaws
-- named and unique objects stay where they are
pub mod StayingLaws
pub use Rattle.client_sim.proofs.Names.ObjectRunLaws
