pub mod Rows
pub mod Runs
pub mod SmallFaults
pub mod Marks
pub mod Faults
