-- What the public contracts and theorems say.
pub mod Ancestors
-- What the inner contracts say.
pub mod Chains
pub mod NodeList
pub mod Walking
-- Laws.
pub mod ChainLaws
