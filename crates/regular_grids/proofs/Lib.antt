pub mod BoundedAnswers
pub mod LengthLaws
