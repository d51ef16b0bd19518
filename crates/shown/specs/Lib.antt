pub mod Line
pub mod Refused
