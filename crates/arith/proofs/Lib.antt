pub mod Below
pub mod OpLemmas
pub mod DegreeLemmas
pub mod TableLemmas
pub mod CircleLemmas
pub mod RootLemmas
pub mod BearingLemmas
pub mod LaneLemmas
pub mod Products
mod Turning
mod Arcs
mod Reached
