-- Laws.
pub mod LocalLaws
