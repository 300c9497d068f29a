-- What a reader must believe of the C calls; and what the inner functions promise.
pub mod Calls
pub mod Inner
