pub mod ContractFacts
pub mod PortFacts
pub mod RoundLemmas
