-- What the public contracts and theorems say.
pub mod Agree
-- Laws.
pub mod AgreeLaws
pub mod PairLaws
