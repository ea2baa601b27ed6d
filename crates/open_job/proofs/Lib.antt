pub mod CallLaws
pub mod LayoutLaws
pub mod StateLaws
pub mod SoundLaws
pub mod WholeLaws
