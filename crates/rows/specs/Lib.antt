-- What a reader must believe of the second engine: its calls' promise, and the words its inner functions go by.
pub mod Rounds
pub mod Calls
