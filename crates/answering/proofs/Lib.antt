pub mod Replies
pub mod MapText
