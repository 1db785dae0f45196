pub mod Moments
pub mod Play
pub mod Run
