pub mod WholeLaws
pub mod PointLaws
pub mod CallLaws
