pub mod SettingsLimits
pub mod Settings
pub mod Accepted
pub mod Numbers
pub mod Given
pub mod KnownSettings
