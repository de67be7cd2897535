-- Laws.
pub mod CodeLaws
