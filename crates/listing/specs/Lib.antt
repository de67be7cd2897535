-- What the public contracts and theorems say.
pub mod Words
pub mod Lines
-- What the inner contracts say.
pub mod Output
pub mod Writer
-- Laws.
pub mod NumberLaws
pub mod OutputLaws
pub mod WriterLaws
pub mod TextLaws
