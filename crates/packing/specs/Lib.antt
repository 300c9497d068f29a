-- What a reader must believe of lists of words packed in bytes.
pub mod Packed
