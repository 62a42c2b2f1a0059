pub mod Questions
pub mod Answers
pub mod Known
pub mod Slots
pub mod Agendas
pub mod Asking
