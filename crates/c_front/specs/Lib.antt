pub mod Conditions
pub mod Front
pub mod FrontEnd
pub mod Literals
pub mod Stages
pub mod Steps
