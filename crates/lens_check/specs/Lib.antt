pub mod FitTest
pub mod ImageParts
pub mod MatchTest
pub mod PartLists
pub mod ReadyComplements
pub mod TypedTriples
