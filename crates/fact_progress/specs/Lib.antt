-- Operations end, after exactly the steps that document 01 lists.
pub mod Alone
pub mod Progress
pub mod Instance
