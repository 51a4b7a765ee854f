pub mod EachPlace
pub mod HeldSteps
pub mod LawsOfContainers
pub mod PlacesWithin
