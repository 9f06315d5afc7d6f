pub mod Worked
pub mod WorkedRuns
