-- What the inner contracts say.
pub mod Written
-- Laws.
pub mod EncodeLaws
pub mod WriterLaws
pub mod BodyLaws
pub mod AgainLaws
pub mod RecordsLaws
pub mod SheetLaws
pub mod WholeLaws
