pub mod Spells
pub mod Prefixes
pub mod Printing
pub mod PrintedParts
pub mod WithoutPlaces
pub mod PrintLaw
