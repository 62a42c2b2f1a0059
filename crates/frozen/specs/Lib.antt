pub mod Runs
pub mod Orders
pub mod Events
pub mod Promises
pub mod Sentence
pub mod Examples
