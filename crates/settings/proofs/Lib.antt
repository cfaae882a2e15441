pub mod NumbersLemmas
pub mod KnownSettings
