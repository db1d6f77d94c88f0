mod FaultLaws
mod PositionLaws
