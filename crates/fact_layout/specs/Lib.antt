-- Ring and layout facts, for every exponent.
pub mod Facts
