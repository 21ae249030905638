pub mod Scans
pub mod Lines
pub mod Runs
pub mod Found
