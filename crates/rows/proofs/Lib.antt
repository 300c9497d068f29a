-- The laws behind the second engine, and the theorems on its promise.
pub mod Lowest
pub mod Choices
pub mod United
pub mod Grows
pub mod Joins
pub mod Works
pub mod Enters
pub mod Closure
pub mod Accepts
pub mod Settled
