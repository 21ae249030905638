-- When a program is well formed, and what it is with its names resolved; else its first fault.
pub mod Definitions
pub mod Functions
pub mod Programs
pub mod Statements
