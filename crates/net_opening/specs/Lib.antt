pub mod KnownOpenings
pub mod Opening
pub mod PlanLinks
pub mod States
pub mod Touched
