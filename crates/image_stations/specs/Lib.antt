pub mod Holders
pub mod Building
pub mod Plans
pub mod Seating
pub mod Finding
