pub mod Growing
pub mod Fronts
pub mod Zones
pub mod Parts
pub mod Tables
pub mod Feeds
