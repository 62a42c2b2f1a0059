pub mod Settled
pub mod Fitting
