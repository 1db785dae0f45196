pub mod Blocks
pub mod ReadsInOrder
pub mod ReadsEnd
