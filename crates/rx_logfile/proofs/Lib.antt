-- Lemmas on a log that is replayed while it is read.
pub mod LogFileLemmas
