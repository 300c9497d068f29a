-- What the proofs of several functions cite, and the theorems on the answers.
pub mod Found
pub mod Rights
pub mod Windows
pub mod Steps
pub mod Accepts
pub mod Exact
pub mod Writes
pub mod Settled
pub mod Worth
