pub mod Made
pub mod Agreeing
pub mod Disagreeing
pub mod Fated
pub mod Resolver
pub mod Responding
