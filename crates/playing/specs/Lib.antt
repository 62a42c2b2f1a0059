pub mod Lives
pub mod Plays
pub mod Lines
pub mod Captured
