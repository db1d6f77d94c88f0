-- Frozen objects: their order, which stay, and which are freed.
pub mod FrozenOrderLaws
pub mod FrozenStayLaws
pub mod FrozenApartLaws
pub mod FrozenAllStayLaws
pub mod FrozenReleasedLaws
pub mod RaisedCountLaws
pub mod FrozenContentLaws
pub mod ReachedFrozenLaws
pub mod FreedBlockLaws
