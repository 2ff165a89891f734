pub mod KnownLiteTraces
pub mod LiteLaws
pub mod LiteRules
pub mod PortFaults
