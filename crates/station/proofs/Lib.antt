pub mod Replies
pub mod Values
pub mod MadeLawful
