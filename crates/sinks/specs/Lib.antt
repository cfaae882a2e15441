pub mod Portions
pub mod Puts
pub mod Pens
pub mod MemorySinks
pub mod Texts
pub mod Streams
