-- What a step makes of the first goal, how its certificates are judged, and what it makes of a
-- proof state.
pub mod Forming
pub mod Judging
pub mod Kinds
pub mod Making
pub mod Pieces
pub mod States
