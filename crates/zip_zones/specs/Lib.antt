pub mod Zones
pub mod Indexing
pub mod Pages
pub mod Packets
pub mod Formats
pub mod Written
pub mod Answers
pub mod Examples
