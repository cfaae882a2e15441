pub mod CommandLemmas
pub mod FilesLemmas
pub mod AskedLemmas
