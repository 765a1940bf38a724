pub mod Calendar
pub mod Clock
pub mod Faults
pub mod Files
pub mod InstantTime
pub mod Store
pub mod Streams
