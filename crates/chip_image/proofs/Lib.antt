pub mod Dumping
pub mod Laying
pub mod Loading
pub mod Numbers
pub mod OneChip
