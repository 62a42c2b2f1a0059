mod Dressed
mod Few
mod Turns
