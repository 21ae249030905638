-- A log that is replayed while it is read: what is said at its end, and what is kept on the way.
pub mod Checking
pub mod LogFiles
