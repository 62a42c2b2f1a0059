pub mod Bounds
pub mod Seated
pub mod Beginnings
