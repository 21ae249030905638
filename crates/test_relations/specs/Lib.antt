-- Transition systems, of which the test of kept equations is.
pub mod Leading
