pub mod PlanText
pub mod KnownTexts
