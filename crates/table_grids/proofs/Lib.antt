pub mod Entries
pub mod Halving
pub mod LongestLaws
pub mod Tables
pub mod NewLaws
pub mod LaidLaws
