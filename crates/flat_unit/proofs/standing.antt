pub mod Changes
pub mod Sending
pub mod OneCall
pub mod Receives
pub mod Requests
pub mod Foreign
