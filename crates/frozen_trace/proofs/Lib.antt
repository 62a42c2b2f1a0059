pub mod EntryLines
pub mod Growth
pub mod Told
pub mod Began
