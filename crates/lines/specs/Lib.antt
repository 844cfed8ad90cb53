-- a line's fields and bytes
pub mod Ascii
pub mod Decimal
pub mod Line
pub mod ReadBack
pub mod Samples
-- how the program builds a text
pub mod Text
