-- What the public contracts and theorems say.
pub mod Lattice
pub mod Worklist
-- What the inner contracts say.
pub mod Queue
pub mod Receipt
-- Laws.
pub mod LatticeLaws
pub mod ReceiveLaws
pub mod WorklistLaws
pub mod LeastLaws
pub mod MaskListLaws
pub mod QueueLaws
pub mod FrontLaws
pub mod ReceiptLaws
pub mod RunMapLaws
