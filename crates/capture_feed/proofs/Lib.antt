pub mod Growing
pub mod Skipping
pub mod Passed
pub mod Leading
pub mod First
