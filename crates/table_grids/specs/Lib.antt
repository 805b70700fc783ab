pub mod Spans
pub mod Causes
pub mod Valid
pub mod Views
pub mod TableAxes
pub mod Kinds
pub mod LaidSpans
