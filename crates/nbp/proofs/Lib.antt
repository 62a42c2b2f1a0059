pub mod Patterns
pub mod Shape
pub mod Registering
pub mod Answering
