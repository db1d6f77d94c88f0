-- The place at the end of a register's path, and calls on it.
pub mod RootPutLaws
pub mod RootChangeLaws
pub mod PathPlaceLaws
pub mod ReferencePlaceLaws
pub mod LeafPutLaws
pub mod NumberPlaceLaws
pub mod ValueChangeLaws
pub mod PartLaws
