pub mod Actions
pub mod Cables
pub mod Files
pub mod Stations
pub mod Sound
