pub mod Packets
pub mod Matching
pub mod Registered
pub mod Expansion
