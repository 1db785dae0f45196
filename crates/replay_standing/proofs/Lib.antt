pub mod Beginning
pub mod Collecting
pub mod Counts
pub mod Decided
pub mod Making
pub mod Plain
pub mod Receiving
pub mod Standing
