pub mod Parts
pub mod Rounds
pub mod Runs
pub mod Shares
pub mod Sizes
