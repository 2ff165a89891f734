pub mod CarryLemmas
pub mod FamilyLemmas
pub mod FormLemmas
pub mod OneLinkLemmas
pub mod OneUpperLemmas
pub mod PacedLemmas
