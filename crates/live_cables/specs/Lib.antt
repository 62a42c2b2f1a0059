pub mod Playing
pub mod Living
pub mod Finding
pub mod Steps
pub mod Putting
pub mod Holding
pub mod Taking
