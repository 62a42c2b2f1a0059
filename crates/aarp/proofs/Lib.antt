mod Numbers
pub mod Shape
mod Written
mod Known
mod Ordered
mod Turns
mod Ticks
mod Counts
pub mod Settled
pub mod Released
