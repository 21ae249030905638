pub mod HeldLemmas
pub mod MemoryLemmas
pub mod OutsideLemmas
pub mod PutsLemmas
