-- The communications area: rings, indicators and the host's pool of envelopes.
pub mod Layout
pub mod Setup
