pub mod Runs
pub mod Sizes
pub mod Passes
pub mod Fills
