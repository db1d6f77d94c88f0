-- Images that are alike, and stay so if both change in the same way.
pub mod AlikeRootLaws
pub mod RootMemberLaws
pub mod AlikeKeptLaws
pub mod AlikeTypesLaws
pub mod ListedRootLaws
pub mod AlikePictureLaws
pub mod AlikeChangeLaws
pub mod OwnedBlockLaws
pub mod IndexAlikeLaws
pub mod GrownBlockLaws
pub mod GrownImageLaws
pub mod GrownAlikeLaws
pub mod MatchedPictureLaws
pub mod LostObjectLaws
pub mod LostAlikeLaws
pub mod RemovedRootLaws
