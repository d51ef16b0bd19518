pub mod Did
pub mod Found
pub mod Burst
