mod Examples
pub mod WordUtf8
pub mod FirstToken
pub mod LastToken
pub mod StringTexts
pub mod TokenForms
pub mod PieceTokens
pub mod NumberDigits
pub mod IsText
