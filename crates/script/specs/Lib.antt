pub mod Replies
pub mod Stops
pub mod Names
pub mod Arguments
pub mod Questions
pub mod Tables
pub mod Lines
