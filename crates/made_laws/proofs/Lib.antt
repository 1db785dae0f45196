pub mod Serving
pub mod Keeping
pub mod Making
pub mod Counting
pub mod Whole
