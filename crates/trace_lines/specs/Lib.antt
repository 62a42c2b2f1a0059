pub mod Stations
pub mod Lines
pub mod Said
