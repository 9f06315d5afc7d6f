pub mod CellParts
