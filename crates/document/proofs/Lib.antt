pub mod PlanLemmas
pub mod RunnableLemmas
pub mod TextLemmas
