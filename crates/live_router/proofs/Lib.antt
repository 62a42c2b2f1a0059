pub mod Seated
pub mod Settled
pub mod Aging
pub mod Short
pub mod Few
