-- What the public contracts and theorems say.
pub mod ClassSet
pub mod ClassMeaning
-- What the inner contracts say.
pub mod Room
-- Laws.
pub mod CutLaws
pub mod ClassLaws
pub mod ClassMeaningLaws
pub mod LaidLaws
