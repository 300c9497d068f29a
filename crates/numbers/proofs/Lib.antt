-- What the limits and the room tell, and when 10 and 13 are given.
pub mod Right
pub mod Given
