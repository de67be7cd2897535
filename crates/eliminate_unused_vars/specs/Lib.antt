-- What the public contracts and theorems say.
pub mod Remap
pub mod Renumber
pub mod Renumbered
-- What the inner contracts say.
pub mod Names
pub mod Remaps
-- Laws.
pub mod MoreListLaws
pub mod StayingLaws
pub mod StayingOrderLaws
pub mod NamesLaws
pub mod NameArrayLaws
pub mod RemapSetLaws
pub mod RemapLaws
pub mod RemapChecksLaws
pub mod RemapAgainLaws
pub mod RemapCodeLaws
pub mod RemapExecuteLaws
pub mod RemapRunLaws
pub mod RemapLiveLaws
pub mod RenumberedHeadingLaws
pub mod RenumberedLaws
pub mod RenumberWorkLaws
pub mod RenumberCallLaws
