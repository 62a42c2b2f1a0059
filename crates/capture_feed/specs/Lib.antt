pub mod Clocks
pub mod Stages
pub mod Reads
pub mod Skipping
pub mod Feeds
