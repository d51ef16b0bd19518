pub mod Refusal
pub mod Block
pub mod Header
pub mod Read
pub mod Write
