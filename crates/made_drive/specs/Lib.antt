pub mod Generator
pub mod Text
pub mod Counts
pub mod Source
pub mod Scan
pub mod Answers
