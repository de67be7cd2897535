-- What the public contracts and theorems say.
pub mod Words
pub mod Code
pub mod Size
pub mod Page
-- What the inner contracts say.
pub mod Bars
pub mod Marks
-- Laws.
pub mod WordLaws
pub mod BarLaws
pub mod CodeLaws
pub mod SectionLaws
pub mod UnnamedLaws
pub mod PageLaws
pub mod CaseLaws
pub mod LineSizeLaws
pub mod PageSizeLaws
