pub mod Ranges
pub mod Places
pub mod Sending
pub mod Taking
pub mod Ready
pub mod Tags
pub mod Caches
