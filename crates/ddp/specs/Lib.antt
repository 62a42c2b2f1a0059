pub mod Datagram
pub mod Bodies
pub mod InPlace
