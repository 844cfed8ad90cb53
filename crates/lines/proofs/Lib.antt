pub mod Decimal
pub mod Texts
pub mod Fields
pub mod Listed
pub mod ReadBack
