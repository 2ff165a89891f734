pub mod ErrorInside
pub mod ErrorLaws
pub mod ErrorState
pub mod ErrorTable
pub mod ErrorTrail
