pub mod ExtendedPlaces
pub mod ExtendedFits
pub mod Prefixes
pub mod Locations
pub mod ReadingSteps
pub mod ReadingSoFar
pub mod ReadingNames
