pub mod Register
pub mod Pages
pub mod Laws
