pub mod Counted
pub mod Faults
