pub mod Putting
pub mod Acting
pub mod Asked
pub mod Steps
