pub mod Maps
pub mod Trees
pub mod EitherMap
