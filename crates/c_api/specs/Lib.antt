-- What the public contracts and theorems say.
pub mod Packed
-- Laws.
pub mod PackedLaws
