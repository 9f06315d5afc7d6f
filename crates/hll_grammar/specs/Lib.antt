pub mod Lookahead
pub mod Operations
pub mod Pieces
pub mod Reading
pub mod Repetition
pub mod Signs
pub mod Starts
pub mod Unread
