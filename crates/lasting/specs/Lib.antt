pub mod Plain
pub mod Standing
pub mod Hears
pub mod Resting
pub mod Begun
pub mod Settled
