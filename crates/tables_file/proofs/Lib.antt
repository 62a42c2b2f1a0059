pub mod Lists
pub mod Stations
pub mod Whole
