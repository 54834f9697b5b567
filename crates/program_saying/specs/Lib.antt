-- The sum of some bytes; a byte in hexadecimal.
pub mod Sum
pub mod Hexadecimal
