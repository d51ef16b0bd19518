pub mod Upto
pub mod Test
pub mod Cells
