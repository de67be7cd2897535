-- What the public contracts and theorems say.
pub mod Graph
pub mod Borrows
pub mod Meaning
-- What the inner contracts say.
pub mod GraphParts
pub mod Visiting
-- Laws.
pub mod GraphLaws
pub mod BorrowLaws
pub mod TripleLaws
pub mod UpwardLaws
pub mod AcceptedLaws
pub mod CallLaws
pub mod AncestorLaws
pub mod VisitLaws
pub mod DyingLaws
pub mod MeaningLaws
