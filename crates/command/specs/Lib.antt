pub mod Files
pub mod Endings
pub mod Whole
