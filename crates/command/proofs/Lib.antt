pub mod FilesLemmas
pub mod WholeLemmas
