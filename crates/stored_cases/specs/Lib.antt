-- What the public contracts say.
pub mod Ops
pub mod Rows
pub mod Tallies
