pub mod Syntax
pub mod Arguments
pub mod Forms
pub mod Exits
pub mod Status
