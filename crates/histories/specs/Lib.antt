-- histories of lent bytes, through the C door
pub mod Bytes
-- the listing of a journal as a history
pub mod Listing
