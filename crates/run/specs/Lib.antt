pub mod Turn
pub mod Turns
pub mod Said
pub mod Ran
pub mod Loaded
