pub mod Faults
pub mod OneImage
pub mod Table
pub mod Laws
pub mod PrivateWords
pub mod RunSteps
pub mod StoppedJob
