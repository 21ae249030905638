pub mod Calls
pub mod Held
pub mod MemoryFiles
pub mod MemorySink
pub mod Outside
pub mod Puts
