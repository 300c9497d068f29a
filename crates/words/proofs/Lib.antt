-- The laws that the crates above cite, each once over the size.
pub mod Bytes
pub mod Tab
pub mod First
pub mod Refusals
pub mod Settled
