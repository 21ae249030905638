-- What the ends of a replay say; what a replay keeps between two lines of a log; what an accepted
-- log says.
pub mod Answers
pub mod LineByLine
pub mod Replay
pub mod Results
pub mod Whole
