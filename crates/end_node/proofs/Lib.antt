pub mod Few
mod Stays
