-- What a text of a thing is and when bytes are one; the texts of numbers, polynomials and rows.
pub mod Formats
pub mod Numbers
pub mod Polynomials
pub mod Rows
pub mod Plain
