pub mod Answers
pub mod Contents
pub mod Layout
pub mod Laws
