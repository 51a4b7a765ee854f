pub mod FormLenses
pub mod FormsOfTables
pub mod Growth
pub mod InsideNodes
pub mod LensesInside
