-- The public step, and what it enters.
pub mod Entering
pub mod Calls
