pub mod Gone
pub mod Named
pub mod Asked
pub mod Together
