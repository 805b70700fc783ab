pub mod Places
pub mod Making
pub mod Answers
pub mod Arrays
pub mod Gathers
pub mod Laws
pub mod Found
