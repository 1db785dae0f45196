pub mod Lines
pub mod Scans
pub mod WithinLines
pub mod Tallies
pub mod Sayings
