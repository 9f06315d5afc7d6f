pub mod CountLemmas
pub mod FileLemmas
pub mod NamedLemmas
pub mod Putting
pub mod Reading
pub mod Sending
