-- That a reply made of what was read is the definition's: Replies.
pub mod Replies
