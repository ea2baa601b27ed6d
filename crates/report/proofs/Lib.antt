pub mod TextLaws
pub mod DigitLaws
pub mod LineLaws
pub mod CoveredLaws
pub mod ReportLaws
pub mod InputLaws
pub mod CallLaws
