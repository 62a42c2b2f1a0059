pub mod Known
pub mod Images
pub mod Returned
pub mod Scripts
pub mod Unplayed
mod TablesFaults
