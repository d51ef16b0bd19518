pub mod Laws
pub mod Chain
pub mod Recording
pub mod Loading
