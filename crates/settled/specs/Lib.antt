pub mod Offers
pub mod Offered
pub mod Settling
pub mod Moved
pub mod Exchange
pub mod Examples
