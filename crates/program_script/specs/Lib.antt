-- The words that lines begin with, the numbers that they take, and the words that say why a line is no call.
pub mod Order
pub mod Reason
