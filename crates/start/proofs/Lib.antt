-- The laws of one write and of the start's sequence of them; what its checks tell, and when its refusal is given;
-- that its promise settles.
pub mod Entered
pub mod Order
pub mod Filling
pub mod Given
pub mod Settled
