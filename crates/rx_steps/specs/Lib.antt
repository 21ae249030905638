-- The ends of steps on a state, and goals alone.
pub mod Alone
pub mod Faults
pub mod Settled
pub mod Shown
