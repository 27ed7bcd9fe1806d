-- What the clauses of the crate cite.
pub mod Counts
pub mod DeviceStates
pub mod Devices
pub mod Files
pub mod Memory
pub mod Sinks
