-- The laws that the proofs of several functions cite, and the theorems on the report.
pub mod Pens
pub mod Decimals
pub mod Paths
pub mod Tails
pub mod Counted
pub mod Lined
pub mod Reports
pub mod Runs
pub mod Rooms
pub mod Settled
