pub mod Due
pub mod History
pub mod HistoryLaws
pub mod Right
