-- The schedule program: the machine and one step of each side; its opening; its bytes; its line, and how that is printed.
pub mod Machine
pub mod Opening
pub mod Drive
pub mod Schedule
pub mod Printed
