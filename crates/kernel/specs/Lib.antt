pub mod Did
pub mod Part
