-- "One step touches at most one word."
pub mod OneStep
