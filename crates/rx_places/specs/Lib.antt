-- Places of a text as a person sees them.
pub mod Excerpts
pub mod FrontsKept
pub mod LineFronts
pub mod Pieces
pub mod Places
pub mod Spots
