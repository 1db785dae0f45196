pub mod Machine
pub mod Effects
pub mod Own
pub mod Ways
