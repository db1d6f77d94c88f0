-- The rows of operations, and what the verifier's rules leave.
pub mod RuleRowLaws
pub mod RowPartLaws
pub mod ObjectRowLaws
pub mod PlaceRowLaws
pub mod ElsePartLaws
pub mod BareLaws
pub mod SharedCellLaws
pub mod RowFrameLaws
pub mod SharingRowLaws
pub mod RoomRowLaws
