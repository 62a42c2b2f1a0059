pub mod Living
pub mod Ticking
