pub mod Told
pub mod Pages
pub mod Fresh
pub mod Fetched
pub mod Listed
