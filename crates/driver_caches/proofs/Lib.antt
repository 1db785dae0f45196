pub mod Wants
pub mod Evicted
pub mod Picking
pub mod Changing
mod Hints
mod Lapsing
pub mod Planning
mod Shaped
