pub mod Registered
pub mod Soundness
