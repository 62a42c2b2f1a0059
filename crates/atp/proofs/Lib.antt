pub mod Payload
pub mod Shape
mod Lists
mod Known
mod Free
mod Slots
mod Steps
mod Due
mod OpenIds
mod Copies
mod Requests
mod Accepted
pub mod Complete
mod CompleteExample
mod Replies
pub mod Keeping
mod Renewals
