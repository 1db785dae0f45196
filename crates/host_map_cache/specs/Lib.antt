pub mod Shapes
pub mod Words
pub mod Regions
pub mod Cache
