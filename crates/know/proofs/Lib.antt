pub mod NameLaws
pub mod RepairLaws
pub mod KnownRepairs
