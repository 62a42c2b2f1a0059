mod Same
pub mod Values
