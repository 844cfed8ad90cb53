-- the laws of the line's definitions, and the functions' proofs
pub mod Numbers
pub mod Places
pub mod Scans
pub mod Gap
pub mod Ordered
pub mod Samples
