mod Examples
pub mod RefusalLines
pub mod TextFronts
