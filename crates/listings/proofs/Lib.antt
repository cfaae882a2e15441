pub mod Texts
pub mod KnownListings
