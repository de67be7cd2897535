-- What the public contracts and theorems say.
pub mod Samples
pub mod Worked
pub mod Readings
pub mod ClassReadings
pub mod WalkReadings
pub mod Pages
-- What the inner contracts say.
pub mod Opened
