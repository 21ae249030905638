-- Lemmas on the definitions of specs/.
pub mod DecidingLaws
pub mod FilteredPairs
pub mod InsideLaws
pub mod KeptComponents
pub mod StayingLaws
