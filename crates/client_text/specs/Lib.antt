pub mod Texts
pub mod Items
pub mod Lines
pub mod Headers
pub mod Outlines
