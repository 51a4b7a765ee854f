pub mod CallsOverStores
pub mod CutStores
pub mod SessionRuns
pub mod StoresOfSessions
