pub mod Kind
pub mod Path
