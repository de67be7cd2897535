-- What the public contracts and theorems say.
pub mod Rewrite
pub mod RewriteAccepted
pub mod Walk
pub mod Unchanged
-- What the inner contracts say.
pub mod Plan
pub mod RewriteWork
-- Laws.
pub mod PieceLaws
pub mod PlaceLaws
pub mod SoundLaws
pub mod RewriteAcceptedLaws
pub mod WalkLaws
pub mod UnchangedLaws
pub mod PlanLaws
pub mod LostLaws
pub mod HighestLaws
pub mod NumberLaws
pub mod PlannedLaws
pub mod NewCodeLaws
pub mod RewriteWorkLaws
pub mod RewriteCallLaws
pub mod CaseLaws
