-- What the inner contracts say.
pub mod BlockSearch
-- Laws.
pub mod RowLaws
