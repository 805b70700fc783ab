pub mod ArgumentLaws
pub mod QuestionLaws
pub mod StopLaws
pub mod LineLaws
pub mod TableLaws
