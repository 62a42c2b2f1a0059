pub mod Cases
pub mod Ranges
pub mod Texts
pub mod Fields
pub mod Items
pub mod Laws
pub mod Readers
pub mod Below
mod Examples
pub mod Packets
pub mod Loops
pub mod Prefixes
pub mod Lists
pub mod Spans
pub mod Numbers
