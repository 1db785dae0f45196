pub mod Opened
pub mod Nothing
pub mod Empty
pub mod Fewer
