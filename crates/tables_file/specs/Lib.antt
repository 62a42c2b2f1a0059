pub mod Values
pub mod Marks
pub mod Rising
pub mod Cables
pub mod Routers
pub mod Nodes
pub mod Files
