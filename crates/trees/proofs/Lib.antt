pub mod TreeLaws
pub mod MakingLaws
pub mod RepresentationLaws
pub mod ReplayLaws
pub mod Rebuilding
