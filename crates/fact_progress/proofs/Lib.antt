pub mod Runs
pub mod SendRun
pub mod TakeRun
pub mod TailRun
pub mod FetchRun
pub mod PostRun
pub mod OnceAround
