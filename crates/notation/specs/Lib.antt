pub mod If
pub mod Upto
