pub mod Parts
pub mod Turns
pub mod Chain
pub mod Shape
pub mod Ends
pub mod Course
pub mod Loads
