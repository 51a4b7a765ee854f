mod Examples
mod PlainExamples
pub mod Machine
pub mod MachineSteps
pub mod MachineSoundness
pub mod InitialValues
mod MachineCompleteness
pub mod SymbolTokens
pub mod TokenReading
pub mod ListReading
pub mod TypeReading
pub mod LensReading
pub mod ProgramReading
pub mod ReadingLaws
pub mod Unexpected
pub mod TextEnd
pub mod PlainPrefixes
pub mod NumberedSymbols
pub mod NestingBound
