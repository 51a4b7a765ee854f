pub mod CallsLeaveRuns
pub mod CutItems
pub mod PairNumbers
pub mod RunOfAccepted
pub mod RunsOverStores
pub mod SameStores
