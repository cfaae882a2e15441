pub mod Limits
pub mod KnownBattles
