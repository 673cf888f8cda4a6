pub mod Faults
pub mod Typed
