pub mod DoublingLaws
