mod KnownLaws
pub mod ProgramLaws
