pub mod Texts
pub mod Lists
pub mod Shown
pub mod Laws
