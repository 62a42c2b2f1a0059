pub mod Seats
pub mod Keeps
pub mod Grown
pub mod Fair
pub mod Refused
pub mod Asked
pub mod Asking
pub mod Promised
pub mod AtRest
pub mod Sentence
mod Examples
pub mod ExampleRuns
