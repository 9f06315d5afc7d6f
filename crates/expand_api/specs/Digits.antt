-- Lists of binary digits and the numbers that they spell.
pub mod Values
pub mod Choices
pub mod Sums
pub mod Comparisons
pub mod Bounds
pub mod Readings
pub mod Products
pub mod Quotients
pub mod Steps
