pub mod Literals
pub mod Watches
pub mod Trails
pub mod Searches
pub mod Explanations
pub mod Answers
