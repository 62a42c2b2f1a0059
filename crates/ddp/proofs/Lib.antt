pub mod Shape
pub mod Places
pub mod Extents
pub mod Bodies
pub mod Agreement
pub mod Written
