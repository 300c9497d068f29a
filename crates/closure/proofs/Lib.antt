-- The laws that the functions' proofs cite; that the run's promise settles every answer and word, and when each refusal is given.
mod Swept
mod Fills
mod Closing
pub mod Settled
pub mod Given
