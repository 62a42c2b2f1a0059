pub mod Frames
pub mod Targets
