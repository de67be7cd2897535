-- What the public contracts and theorems say.
pub mod Blocks
pub mod FlowMeaning
pub mod Backward
-- What the inner contracts say.
pub mod Arrays
pub mod Sorting
pub mod Graph
-- Laws.
pub mod BlockLaws
pub mod NextLaws
pub mod StartLaws
pub mod CheckedSheetLaws
pub mod AcceptedLaws
pub mod OffsetLaws
pub mod KeyLaws
pub mod FlowLaws
pub mod GraphLaws
pub mod RowLaws
pub mod CallLaws
pub mod FlowMeaningLaws
pub mod SortLaws
pub mod SlotLaws
pub mod LeadLaws
pub mod SpreadLaws
pub mod KeyInLaws
pub mod FoundLaws
pub mod AlikeLaws
pub mod TargetLaws
