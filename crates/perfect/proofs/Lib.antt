pub mod MarksLaws
pub mod Reply
