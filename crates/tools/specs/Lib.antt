pub mod Span
pub mod Shown
pub mod Given
