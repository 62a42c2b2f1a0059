pub mod Eaches
pub mod Listed
pub mod Taken
pub mod Values
pub mod Valid
pub mod OfOne
