pub mod Count
pub mod Selection
pub mod Waiting
pub mod Sharp
pub mod SharpClasses
pub mod Mark
pub mod Traps
