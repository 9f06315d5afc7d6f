pub mod GatheredDefinitions
pub mod OwnedCells
pub mod Spots
pub mod CellSpots
