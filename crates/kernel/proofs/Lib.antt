pub mod Laws
pub mod Part
pub mod Records
pub mod Door
