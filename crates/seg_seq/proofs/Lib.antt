pub mod Joins
pub mod RingInsertionLaws
pub mod RingRemovalLaws
pub mod RingWalkLaws
pub mod SeveralWriteLaws
pub mod Homes
pub mod ListNodeLaws
pub mod NewNodeLaws
pub mod NodeAdditionLaws
pub mod NodeRemovalLaws
pub mod ListRemovalLaws
pub mod Fronts
mod SequenceKinds
mod Results
mod CallPlaceLaws
mod Rooms
mod CountWriteLaws
mod TextSteps
mod TooMuch
mod TextCalls
mod Items
mod ItemAdditionLaws
mod ItemCalls
mod InPlace
mod ItemRemovalLaws
mod ItemPositionLaws
