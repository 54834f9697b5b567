-- Fatal 10, against the history of a port's calls.
pub mod Credit
