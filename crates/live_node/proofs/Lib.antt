pub mod Heard
pub mod Short
mod Starting
