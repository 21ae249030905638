-- What a cache of answers holds, and what becomes of it and of the solver behind it.
pub mod Cache
pub mod CachedSolver
