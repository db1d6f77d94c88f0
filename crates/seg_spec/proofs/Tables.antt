-- Tables of types: the sizes of types, and the entries in bytes.
pub mod TableExtensionLaws
pub mod OneTableLaws
pub mod TypeSizeLaws
pub mod TableEntryLaws
pub mod ValidTableLaws
