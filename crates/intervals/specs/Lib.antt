pub mod Ends
pub mod Numbers
pub mod Rules
pub mod Answers
pub mod Hulls
pub mod Products
pub mod Sound
