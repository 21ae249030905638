-- The lines of a log, a log as text, and the first line of a text with which no log begins.
pub mod Frames
pub mod Lines
pub mod Logs
pub mod Once
pub mod Readers
pub mod Reading
pub mod Steps
