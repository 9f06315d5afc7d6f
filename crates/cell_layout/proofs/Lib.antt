pub mod FewCells
pub mod StepsIntoCells
pub mod PartsInRows
pub mod HeldNumbers
pub mod PartSteps
pub mod PickedCells
pub mod VariableStarts
pub mod KindPairs
