pub mod Formulas
pub mod Stores
pub mod Steps
pub mod Logs
pub mod Marks
pub mod Occurrences
pub mod Closing
pub mod Containment
