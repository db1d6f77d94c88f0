mod Versions
mod MovesLaws
mod NumberLaws
mod TextLaws
mod PartLaws
mod ObjectLaws
mod SharedObjectLaws
mod NamedObjectLaws
mod FreedBlockLaws
mod OwnerLaws
mod ItemLaws
mod NamedLaws
mod PositionLaws
mod OwnMoveLaws
mod IndexLaws
mod CourseLaws
mod UnnamedLaws
mod RestLaws
mod PassLaws
mod ProgramLaws
pub mod AcceptedLaws
mod RunLaws
pub mod ImagePlaceLaws
pub mod ReportLaws
pub mod RefusalLaws
pub mod TogetherLaws
