pub mod Ports
pub mod Stays
pub mod Onward
pub mod Poisoned
pub mod Seated
