-- The laws of one write of a step; what its checks tell, and when each refusal is given;
-- that its promise settles; sequences of calls, from the start on.
pub mod Entered
pub mod Order
pub mod Given
pub mod Settled
pub mod Sequences
