-- The laws of a row of points and its replies.
pub mod Replies
