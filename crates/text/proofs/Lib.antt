pub mod Cutting
pub mod Going
pub mod InDigits
pub mod Pairs
pub mod Values
