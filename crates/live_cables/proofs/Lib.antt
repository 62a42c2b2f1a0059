pub mod Pending
pub mod Played
pub mod Calm
pub mod Losses
pub mod Calls
pub mod Shed
pub mod Released
pub mod Exact
pub mod Knows
pub mod Learning
pub mod Taken
pub mod Answered
pub mod Whole
pub mod Idle
pub mod Heard
mod NoRoom
mod Still
mod Parts
