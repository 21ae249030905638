-- Polynomials with numbers; packed states.
pub mod Numbers
pub mod Packing
