mod KnownTexts
pub mod CallLaws
pub mod LeastLemmas
pub mod LineLemmas
pub mod PlanLaws
pub mod RightLaws
pub mod RunLaws
pub mod TraceLaws
pub mod TransferLemmas
