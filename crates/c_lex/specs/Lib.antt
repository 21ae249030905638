pub mod Bytes
pub mod Keywords
pub mod Marks
pub mod Spelling
pub mod Pieces
pub mod Tokens
pub mod Classes
pub mod Kept
