-- Objects of registers, of names and of types: they come, go, move or become frozen.
pub mod OwnedPlaceLaws
pub mod FirstRootLaws
pub mod OwnedRootLaws
pub mod PictureLaws
pub mod ObjectPlaceLaws
pub mod ObjectChangeLaws
pub mod NewObjectLaws
pub mod NamedChangeLaws
pub mod NameByteLaws
pub mod OwnedChangeLaws
pub mod OwnedPictureLaws
pub mod OwnedMoveLaws
pub mod FrozenMoveLaws
pub mod ObjectMoveLaws
pub mod MoveWorldLaws
pub mod OwnedObjectLaws
pub mod UniqueChangeLaws
