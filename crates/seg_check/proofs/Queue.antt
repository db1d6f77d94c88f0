-- The queue of blocks whose places are still to be read.
pub mod ReadPlaceLaws
pub mod QueueStepLaws
pub mod QueueOrderLaws
pub mod PlaceLoopLaws
pub mod EntryLoopLaws
pub mod BlockLoopLaws
