pub mod Names
pub mod Repairs
pub mod KnownRepairs
pub mod Laws
