-- What every side of both halves is made of: where its operation stands, what a call leaves, and what a step is.
pub mod Place
pub mod Step
