-- document 01's terms
pub mod Node
pub mod Held
pub mod Pages
-- the same terms in other coordinates, for proofs
pub mod Block
