-- The laws of packing, each once over the size of a word.
pub mod Packed
