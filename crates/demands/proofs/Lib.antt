-- The proofs of the demands.
pub mod HeaderTrees
pub mod Covering
pub mod Accepted
pub mod Files
pub mod Cover
pub mod Kept
pub mod Indexes
pub mod Unaltered
pub mod Exported
pub mod Walked
pub mod Sentences
pub mod Widths
pub mod Malformed
pub mod CutUpload
pub mod Steps
pub mod Examples
pub mod Wrong
