pub mod ByteLemmas
pub mod CutLemmas
pub mod GroupLemmas
pub mod HeldLemmas
pub mod LegalLemmas
pub mod OneIdLemmas
pub mod ShownLemmas
pub mod WholeLemmas
