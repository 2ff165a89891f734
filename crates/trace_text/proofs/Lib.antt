pub mod AnswerLemmas
pub mod BeatForms
pub mod FieldForms
pub mod KnownLines
pub mod LanesLaws
pub mod LineForms
pub mod WritingLaws
