pub mod Words
pub mod Numbers
pub mod Marks
pub mod Names
pub mod Place
pub mod Pieces
pub mod Tokens
