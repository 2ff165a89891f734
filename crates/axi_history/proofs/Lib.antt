pub mod GoodHistory
pub mod HistoryLemmas
pub mod KnownHistoryLemmas
pub mod RefusedHistories
pub mod SameLemmas
pub mod TraceLemmas
