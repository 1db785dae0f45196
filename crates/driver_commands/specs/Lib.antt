pub mod Open
pub mod Places
pub mod Calls
pub mod State
