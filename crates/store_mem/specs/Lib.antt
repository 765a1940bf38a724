pub mod Calls
pub mod Entries
pub mod Files
pub mod MemClock
pub mod MemStore
pub mod MemStreams
pub mod Stopped
