pub mod Building
pub mod Drafts
pub mod Signals
pub mod Tables
