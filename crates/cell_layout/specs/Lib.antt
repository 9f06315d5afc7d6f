pub mod Steps
pub mod Parts
pub mod Starts
pub mod Laws
