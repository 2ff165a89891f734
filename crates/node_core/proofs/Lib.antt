pub mod FitLemmas
pub mod MovesLemmas
pub mod ReadyLemmas
pub mod RowLemmas
pub mod PaceLemmas
pub mod TurnLemmas
