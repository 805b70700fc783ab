pub mod RunLaws
pub mod LayLaws
pub mod JoinLaws
pub mod ShortestLaw
