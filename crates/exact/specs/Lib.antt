pub mod Same
pub mod Rows
pub mod Refusals
pub mod SameRun
pub mod Remainder
