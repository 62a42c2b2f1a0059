pub mod Fits
pub mod Freezing
pub mod Valid
pub mod Frozen
pub mod Alone
