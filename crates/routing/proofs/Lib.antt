pub mod Coming
pub mod Blocks
pub mod Running
