-- Values, states, and what is known of them.
pub mod ValueLaws
pub mod ShapeLaws
pub mod DefaultLaws
pub mod StateLaws
pub mod PutLaws
pub mod ClassLaws
pub mod KnowledgeChangeLaws
pub mod ValueFormLaws
pub mod PlaceShapeLaws
pub mod PictureLaws
