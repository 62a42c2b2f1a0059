pub mod FirstTwo
