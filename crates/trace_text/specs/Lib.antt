pub mod AnswerLine
pub mod Form
pub mod Line
pub mod LineLaws
pub mod Ranges
pub mod Reading
