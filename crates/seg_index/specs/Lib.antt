pub mod NameParts
pub mod Lists
