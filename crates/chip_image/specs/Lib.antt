pub mod Image
pub mod Laws
pub mod Load
pub mod Steps
pub mod Transfer
