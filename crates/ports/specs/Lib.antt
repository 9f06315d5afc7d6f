pub mod Causes
pub mod Contents
pub mod DeskState
pub mod DeskSteps
pub mod Faults
pub mod Named
pub mod Plans
pub mod SinkState
