-- What a reader must believe of the report; and what the inner functions promise.
pub mod Text
pub mod Pairs
pub mod Report
pub mod Pen
pub mod Queried
pub mod Penned
