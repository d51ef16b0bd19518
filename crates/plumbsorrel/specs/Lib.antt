pub mod Number
pub mod Offers
pub mod Image
pub mod Record
pub mod Asked
