pub mod Laws
pub mod Says
pub mod InOrder
pub mod Tests
pub mod Inverse
pub mod Typed
