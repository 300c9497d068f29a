-- The examples hold, and the errors are errors.
pub mod Certain
pub mod Decks
pub mod Examples
pub mod Errors
