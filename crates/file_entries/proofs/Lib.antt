pub mod Lists
pub mod Notes
pub mod Turns
pub mod Given
pub mod Bounds
