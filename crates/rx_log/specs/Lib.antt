-- When a log is accepted, and otherwise its first fault; the lines of a log and their order; how
-- deep what is in a log is.
pub mod Acceptance
pub mod Depth
pub mod Lines
pub mod Places
pub mod Reading
