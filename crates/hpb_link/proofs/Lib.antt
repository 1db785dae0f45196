pub mod Sent
pub mod Heard
pub mod Others
pub mod Passes
pub mod Places
