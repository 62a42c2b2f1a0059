pub mod Traces
pub mod Captured
