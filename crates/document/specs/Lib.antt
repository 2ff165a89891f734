-- What a document asks for, or why it is refused.
pub mod Document
pub mod Runnable
pub mod PlanLaws
