-- Numbers and lists.
pub mod IndexLaws
-- The required level.
pub mod LevelLaws
pub mod GapLaws
pub mod LeastLaws
pub mod ChangeLaws
-- Run lists, and the required runs.
pub mod RunLaws
pub mod RunsOfLaws
pub mod PointLaws
pub mod RequiredLaws
pub mod CountLaws
-- The sweep.
pub mod BreakLaws
pub mod TopLaws
pub mod SweepLaws
pub mod MoreLaws
pub mod StandLaws
pub mod MeetLaws
pub mod SweptLaws
-- What stands in arrays: runs and envelopes, break points, keys.
pub mod StoredLaws
pub mod PlaceLaws
pub mod SortLaws
pub mod InsertLaws
pub mod SpreadLaws
pub mod KeyLaws
