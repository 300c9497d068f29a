pub mod Blocks
pub mod Readers
pub mod Reads
pub mod Stages
