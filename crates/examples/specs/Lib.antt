-- Checked examples, and errors that look right.
pub mod Examples
pub mod Errors
