-- Laws on the walk, above definitions that must-fail edits change.
pub mod StepLaws
pub mod StateLaws
pub mod WalkingLaws
