pub mod FormHubs
pub mod GivenLines
pub mod PartPieces
pub mod PartTexts
pub mod RefusedParts
pub mod StateTexts
