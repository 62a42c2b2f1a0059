pub mod Words
pub mod Cuts
pub mod Digits
pub mod Going
pub mod Writing
