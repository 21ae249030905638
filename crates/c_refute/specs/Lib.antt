-- How two functions compare on all small arguments.
pub mod Points
pub mod Walk
pub mod Laws
