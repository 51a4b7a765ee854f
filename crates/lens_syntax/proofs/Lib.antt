mod Examples
pub mod GrammarAnswers
