-- What the check's answer tells: the facts of accepted lists, when each refusal is given, and that the answer of `Lists::new` is settled.
pub mod Right
pub mod Given
pub mod Settled
