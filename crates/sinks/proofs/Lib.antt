pub mod PortionsLemmas
pub mod PenLemmas
pub mod TextsLemmas
