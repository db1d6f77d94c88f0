pub mod CellCases
pub mod Shifts
pub mod Pointers
pub mod NameOrder
pub mod NamedTags
pub mod Precedes
