-- Lemmas on the definitions of specs/.
pub mod Answering
pub mod Coefficients
pub mod Covering
pub mod Dividing
pub mod Exact
pub mod Exactness
pub mod Gcd
pub mod Joined
pub mod Lists
pub mod Measuring
pub mod Skipping
pub mod Stages
pub mod Sums
pub mod Tracking
