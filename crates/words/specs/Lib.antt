-- What a reader must believe of numbers in lists: bytes, tables of words, searches, refusals.
pub mod Bytes
pub mod Tab
pub mod First
pub mod Refusals
