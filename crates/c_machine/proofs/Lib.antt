pub mod RunningCode
pub mod Endings
