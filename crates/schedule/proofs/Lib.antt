pub mod WriteLaws
pub mod RecordLaws
pub mod ScheduleLaws
pub mod LengthLaws
pub mod PlanLaws
pub mod PlannedLaws
