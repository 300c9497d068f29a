-- What a reader must believe of the table check and the witness; and what the inner functions promise.
pub mod Answers
pub mod Walks
