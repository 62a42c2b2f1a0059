pub mod Drawing
pub mod Marks
pub mod Hands
pub mod Labels
pub mod Shapes
