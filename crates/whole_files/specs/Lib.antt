pub mod Ends
pub mod Shared
