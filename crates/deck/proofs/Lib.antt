-- Laws of the reader's definitions; and, beside its promise: zeros_from_lem, fills_5, given_1 to given_10, given_only, record_lies, unknown_kind, accepted_lists, read_is, settled.
pub mod Sums
pub mod Zeros
pub mod Readers
pub mod Framed
pub mod Rising
pub mod Handed
pub mod Places
pub mod Map
pub mod Given
pub mod Unknown
pub mod Lists
pub mod Leaves
pub mod Settled
