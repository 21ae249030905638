-- Lemmas on the definitions of specs/.
pub mod FunctionList
pub mod Heads
pub mod Loops
pub mod Slots
pub mod StatementList
