pub mod Joins
pub mod Texts
pub mod RowLinesTexts
pub mod LinesTexts
pub mod Numbers
pub mod Answered
pub mod Refused
pub mod Files
