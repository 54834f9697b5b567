-- The schedule program's runs among those of demand 3.
pub mod Calls
