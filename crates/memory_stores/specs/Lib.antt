pub mod Extents
pub mod Laid
pub mod Entries
pub mod Named
pub mod Meanings
