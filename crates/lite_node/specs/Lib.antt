pub mod LiteInside
pub mod LiteLaws
pub mod LiteState
pub mod LiteTable
pub mod LiteTrail
