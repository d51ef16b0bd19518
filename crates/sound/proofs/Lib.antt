pub mod Laws
pub mod Listed
pub mod Tallies
pub mod Parts
pub mod Whole
