pub mod CountLaws
pub mod NumberLaws
pub mod TableLaws
pub mod SettingsLaws
pub mod CacheLaws
pub mod NewCacheLaws
pub mod OtherKeyLaws
