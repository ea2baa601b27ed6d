pub mod FormulaLaws
pub mod ApproachLaws
pub mod PanelLaws
pub mod OffsetLaws
