-- The two rules that both halves go by: what an envelope must say, and what an answer grants.
pub mod Rules
