pub mod Maps
pub mod Heard
pub mod Shape
pub mod FirstTuple
pub mod Sent
pub mod Spelled
pub mod Asked
mod Brought
pub mod Scan
pub mod Numbering
pub mod Spoiled
pub mod Usable
