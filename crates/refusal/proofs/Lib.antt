pub mod RowLaws
pub mod RefuseLaws
