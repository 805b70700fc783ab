pub mod TextLaws
pub mod WordLaws
pub mod ListLaws
pub mod ShownLaws
pub mod BackLaws
