-- What the public contracts and theorems say.
pub mod Live
pub mod Analysis
pub mod LiveCall
pub mod Needed
pub mod Term3
-- What the inner contracts say.
pub mod Rules
pub mod Engine
pub mod Output
pub mod Prepared
-- Laws.
pub mod LiveLaws
pub mod NeededLaws
pub mod RuleLaws
pub mod BlockRuleLaws
pub mod AnalysisLaws
pub mod Term3Laws
pub mod DecodeLaws
pub mod InputLaws
pub mod EngineLaws
pub mod RunLaws
pub mod OutputLaws
pub mod PreparedLaws
pub mod LiveCallLaws
