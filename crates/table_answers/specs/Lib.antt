pub mod InTurn
pub mod InstantWrites
pub mod NamedRuns
pub mod Snapshots
