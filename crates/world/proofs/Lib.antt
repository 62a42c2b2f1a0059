pub mod Going
pub mod Received
pub mod Begun
pub mod Stations
pub mod Losses
pub mod Ticked
mod Acted
mod Doing
pub mod Kept
pub mod Stopped
