pub mod Shape
pub mod Values
pub mod Laid
