-- Laws of the order of lines.
pub mod PlaceLaws
