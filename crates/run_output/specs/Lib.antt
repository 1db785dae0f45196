pub mod Ends
pub mod Status
pub mod Texts
pub mod Writes
