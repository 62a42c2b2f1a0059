pub mod Seating
pub mod Planning
pub mod Beginning
