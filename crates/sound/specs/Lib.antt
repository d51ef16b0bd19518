pub mod Tally
pub mod Test
