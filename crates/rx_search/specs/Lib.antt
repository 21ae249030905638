-- What a search for a proof comes to.
-- Nodes of the search, and the choices at them.
pub mod Beginning
pub mod Begun
pub mod Calls
pub mod Candidates
pub mod Ends
pub mod Known
pub mod Menu
pub mod NodeNodes
pub mod Nodes
pub mod Search
