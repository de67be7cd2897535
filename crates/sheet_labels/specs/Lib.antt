-- What the inner contracts say.
pub mod Labelled
-- Laws.
pub mod LabelLaws
pub mod NameLaws
