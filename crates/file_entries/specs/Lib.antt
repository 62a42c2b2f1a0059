pub mod Values
pub mod Entries
pub mod Faults
pub mod Texts
pub mod Documents
