pub mod One
pub mod Counting
pub mod Passing
pub mod Dressing
pub mod Stepping
pub mod Runs
