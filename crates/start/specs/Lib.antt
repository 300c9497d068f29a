-- The public start, and the order in which it enters its keys.
pub mod Entering
pub mod Calls
