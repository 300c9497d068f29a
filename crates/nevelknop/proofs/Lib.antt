-- The laws that the functions' proofs cite, and the theorems on the calls.
pub mod Orders
pub mod Places
pub mod Lent
pub mod Windows
pub mod Told
pub mod Settled
pub mod Says
