pub mod Packets
pub mod Choosing
pub mod Mapping
