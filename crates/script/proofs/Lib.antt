pub mod Feeding
pub mod Hopeless
pub mod Names
pub mod Progress
pub mod Requesting
pub mod Splitting
pub mod Telling
