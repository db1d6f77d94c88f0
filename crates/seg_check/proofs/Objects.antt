-- The index, its objects, unique objects and frozen objects.
pub mod RootReadLaws
pub mod NamedObjectLaws
pub mod UniqueObjectLaws
pub mod IndexLaws
pub mod TreeIndexLaws
pub mod FrozenOrderLaws
pub mod FrozenListLaws
pub mod FrozenReadLaws
