-- Images that are worked out by hand, and what they are examples of.
pub mod ImageEvaluationLaws
pub mod SoundImages
pub mod SharedImages
pub mod UnsoundImages
pub mod Parts
pub mod EveryImage
pub mod NoRoots
pub mod Denials
pub mod CutBuffers
pub mod MovedBuffers
pub mod Several
pub mod Whole
pub mod ExchangedImage
pub mod SharedCells
