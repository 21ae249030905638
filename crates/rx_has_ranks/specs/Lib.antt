-- What an answer says of whether there are ranks, and what is kept of graphs of pairs.
pub mod HasRanks
pub mod KnownComponents
