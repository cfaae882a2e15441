pub mod Trees
pub mod TreeStacks
pub mod Opened
pub mod TreeMakers
pub mod Replaying
pub mod Laws
