-- What the public contracts and theorems say.
pub mod LabelCall
-- What the inner contracts say.
pub mod Searches
-- Laws.
pub mod LabelLaws
pub mod NameLaws
