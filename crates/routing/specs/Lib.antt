pub mod Called
pub mod Events
pub mod Streams
pub mod Run
