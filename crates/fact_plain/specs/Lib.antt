-- The plain machine: two bounded first-in first-out queues with the credit counts.
pub mod Plain
pub mod Log
