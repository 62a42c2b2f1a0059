pub mod Heard
pub mod Forgetting
pub mod Queries
pub mod Examples
pub mod LeftOut
