pub mod Cuts
pub mod Feeds
pub mod Stops
pub mod Words
pub mod Lines
pub mod Scripts
