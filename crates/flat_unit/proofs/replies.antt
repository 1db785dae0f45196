pub mod Rejects
