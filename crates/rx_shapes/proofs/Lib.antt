-- How frames are put over a term; values that elements take on, as long as each applies; turns.
pub mod Frames
pub mod ShownLaws
pub mod Times
pub mod TriedInOrder
