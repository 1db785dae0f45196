pub mod Apart
pub mod Due
pub mod KeptLemmas
pub mod ListLemmas
pub mod ShapeLemmas
pub mod Telling
